use Rattle.std.proofs.Common.{◌≡◌, ◌≤◌, Bool, if◌then◌else◌, ◌+◌, ◌++◌, ◌∙◌, ap, arith, length, not, subst, sym, take, true, List, ℕ, refl}
use Rattle.std.specs.Result.{is_ok}
use Rattle.std.specs.Vec.{vec_len}
use Rattle.std.specs.Io.KnownBytes.{Keeps, prepend_known}
use Rattle.dirac_ahead.proofs.Grown.{before_room, cut_room, taken_behind}
use Rattle.dirac_ahead.proofs.pieces.read_piece.Goals as goal

pub returns-clause-no_byte_lost : goal.returns-clause-no_byte_lost
returns-clause-no_byte_lost g c =
    let old = c.args.bytes.now.items in
    let all = c.deref_mut.result.now in
    let n = c.fill_piece-filled.result.count in
    let read = c.fill_piece-filled.new.piece in
    let made : is_ok c.resize.result ≡ true = c.is_err.ensures.negation ∙ ap not c.if-is_err.false in
    let place : c.len-length.result ≡ length old = omega (arith, c.len-length.ensures) in
    let kept : take c.len-length.result all ≡ old =
    before_room c.len-length.result c.args.most (is_ok c.resize.result) old _ all made (c.deref_mut.ensures.value ∙ c.resize.ensures.items) place in
    let room : c.resize.new.self.len ≡ c.len-length.result + c.args.most =
    c.resize.ensures.len ∙ ap (λ (b : Bool). if b then c.len-length.result + c.args.most else vec_len c.args.bytes.now) made in
    let inside : c.len-length.result ≤ length all = omega (arith, c.deref_mut.ensures.len, room) in
    let within : c.len-length.result + n ≤ c.resize.new.self.len =
    omega (arith, c.fill_piece-filled.ensures.at_most_the_piece, c.fill_piece-filled.auto.piece, c.deref_mut.ensures.len, room) in
    let new : c.truncate.new.self.items ≡ old ++ take n read =
    cut_room (c.len-length.result + n) c.resize.new.self.len c.len-length.result n all read _ _ old c.truncate.new.self.items c.truncate.ensures.items within refl c.fill_piece-filled.ensures.at_most_the_piece inside kept in
    subst (λ (l : List ℕ). Keeps (prepend_known old (g.S.Source.held c.args.source.now)) (prepend_known l (g.S.Source.held c.fill_piece-filled.new.source))) (sym new)
    (taken_behind (g.S.Source.held c.args.source.now) (g.S.Source.held c.fill_piece-filled.new.source) old (take n read) c.fill_piece-filled.ensures.read)
