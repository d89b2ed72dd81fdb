use Rattle.std.proofs.Common.{◌≡◌, ◌∙◌, ◌++◌, ◌<◌, ◌^◌, ℕ, List, [], None, Some, ap, subst, sym, true, false}
use Rattle.std.specs.Prelude.{OnOk}
use Rattle.std.specs.Io.KnownBytes.{Appends}
use Rattle.std.proofs.lemmas.Result.{on_ok_weaker}
use Rattle.dirac_io.specs.Writing.{AppendsFront}
use Rattle.dirac_encode_laws.specs.Stream.{end_unit}
use Rattle.dirac_edit_laws.specs.Texts.{PictureText}
use Rattle.dirac_edit.specs.declared.keys.Keys.{Keys}
use Rattle.dirac_edit.specs.Merged.{Added, WritingProgress, keys_among, may_follow, onto, own_sequence, own_bytes}
use Rattle.dirac_edit.proofs.Adding.{apart_added, behind_is, bytes_are, latest_is, may_be, onto_added, onto_bytes, onto_latest, onto_length, own_added, own_latest}
use Rattle.dirac_edit.proofs.joining.Progress.put.Goals as goal

-- a sequence of its own, the first one
pub returns-in_default : goal.returns-in_default
returns-in_default g c =
    let p = c.args.self.now in
    let s = c.args.sequence.now in
    let k = keys_among s.pictures in
    let out = g.K.Sink.taken c.args.out.now in
    let out' = g.K.Sink.taken c.put_own.new.out in
    let a : Added = own_sequence [] p.previous s k in
    let none : p.latest ≡ None = latest_is p None c.self.inside.latest (ap (λ (x : WritingProgress). x.latest) c.self.view_is) (sym c.in_default.is ∙ c.take.ensures.value) in
    let same : c.self.inside.previous ≡ p.previous = ap (λ (x : WritingProgress). x.previous) c.self.view_is in
    let keys : c.keys_of-keys.result ≡ k = c.keys_of-keys.ensures.value ∙ ap (λ (ps : List PictureText). keys_among ps) c.pictures.ensures in
    let text = bytes_are p s a (own_bytes c.self.inside.previous s) (own_added p s none) (ap (λ n. own_bytes n s) same) in
    record {
      all = subst (λ (bs : List ℕ). OnOk c.put_own.result (Appends out out' bs)) text c.put_own.ensures.all;
      behind = on_ok_weaker c.put_own.result
          (λ last. behind_is p s a c.of.result c.put_own.new.previous (own_added p s none)
          (own_latest c.of.result c.header.result.now s.header c.keys_of-keys.result k c.header.ensures.value keys c.of.ensures) last)
          c.put_own.ensures.last;
      numbered = subst (λ (x : Keys). x.first < 2 ^ 32) keys c.keys_of-keys.ensures.fits;
      front = subst (λ (bs : List ℕ). AppendsFront out out' bs) text c.put_own.ensures.front;
      failed = c.put_own.ensures.failed;
      count = c.put_own.ensures.count;
    }

-- one that is appended
pub returns-in-Some-merge : goal.returns-in-Some-merge
returns-in-Some-merge g c =
    let p = c.args.self.now in
    let s = c.args.sequence.now in
    let l = c.in-Some.latest in
    let m = c.in-Some-merge.merge in
    let k = keys_among s.pictures in
    let out = g.K.Sink.taken c.args.out.now in
    let out' = g.K.Sink.taken c.put_units.new.out in
    let a : Added = onto l p.previous s k in
    let some : p.latest ≡ Some l = latest_is p (Some l) c.self.inside.latest (ap (λ (x : WritingProgress). x.latest) c.self.view_is) (sym c.in-Some.is ∙ c.take.ensures.value) in
    let same : c.self.inside.previous ≡ p.previous = ap (λ (x : WritingProgress). x.previous) c.self.view_is in
    let keys : c.keys_of-keys.result ≡ k = c.keys_of-keys.ensures.value ∙ ap (λ (ps : List PictureText). keys_among ps) c.pictures.ensures in
    let may : may_follow l s.header k ≡ true = may_be l c.header-2.result.now s.header c.keys_of-keys.result k true c.header-2.ensures.value keys c.in-Some-merge.ensures.0 in
    let text = bytes_are p s a _ (onto_added p l s some may)
    (onto_bytes l c.keys_of-keys.result k m c.self.inside.previous p.previous c.pictures-in-Some-merge.result.now s.pictures keys c.in-Some-merge.ensures.1 same c.pictures-in-Some-merge.ensures) in
    record {
      all = subst (λ (bs : List ℕ). OnOk c.put_units.result (Appends out out' bs)) text c.put_units.ensures.all;
      behind = on_ok_weaker c.put_units.result
          (λ last. behind_is p s a c.raised.result c.put_units.new.previous (onto_added p l s some may)
          (onto_latest c.raised.result l c.keys_of-keys.result k m keys c.in-Some-merge.ensures.1 c.raised.ensures)
          (last ∙ onto_length l c.keys_of-keys.result k m c.self.inside.previous p.previous c.pictures-in-Some-merge.result.now s.pictures keys c.in-Some-merge.ensures.1 same c.pictures-in-Some-merge.ensures))
          c.put_units.ensures.last;
      numbered = subst (λ (x : Keys). x.first < 2 ^ 32) keys c.keys_of-keys.ensures.fits;
      front = subst (λ (bs : List ℕ). AppendsFront out out' bs) text c.put_units.ensures.front;
      failed = c.put_units.ensures.failed;
      count = c.put_units.ensures.count;
    }

-- a sequence of its own, behind another
pub returns-in-None : goal.returns-in-None
returns-in-None g c =
    let p = c.args.self.now in
    let s = c.args.sequence.now in
    let l = c.in-Some.latest in
    let k = keys_among s.pictures in
    let out = g.K.Sink.taken c.args.out.now in
    let out' = g.K.Sink.taken c.put_apart.new.out in
    let a : Added = own_sequence (end_unit p.previous) 13 s k in
    let some : p.latest ≡ Some l = latest_is p (Some l) c.self.inside.latest (ap (λ (x : WritingProgress). x.latest) c.self.view_is) (sym c.in-Some.is ∙ c.take.ensures.value) in
    let same : c.self.inside.previous ≡ p.previous = ap (λ (x : WritingProgress). x.previous) c.self.view_is in
    let keys : c.keys_of-keys.result ≡ k = c.keys_of-keys.ensures.value ∙ ap (λ (ps : List PictureText). keys_among ps) c.pictures.ensures in
    let may : may_follow l s.header k ≡ false = may_be l c.header-2.result.now s.header c.keys_of-keys.result k false c.header-2.ensures.value keys c.in-None.ensures in
    let text = bytes_are p s a (end_unit c.self.inside.previous ++ own_bytes 13 s) (apart_added p l s some may) (ap (λ n. end_unit n ++ own_bytes 13 s) same) in
    record {
      all = subst (λ (bs : List ℕ). OnOk c.put_apart.result (Appends out out' bs)) text c.put_apart.ensures.all;
      behind = on_ok_weaker c.put_apart.result
          (λ last. behind_is p s a c.of-in-None.result c.put_apart.new.previous (apart_added p l s some may)
          (own_latest c.of-in-None.result c.header-in-None.result.now s.header c.keys_of-keys.result k c.header-in-None.ensures.value keys c.of-in-None.ensures) last)
          c.put_apart.ensures.last;
      numbered = subst (λ (x : Keys). x.first < 2 ^ 32) keys c.keys_of-keys.ensures.fits;
      front = subst (λ (bs : List ℕ). AppendsFront out out' bs) text c.put_apart.ensures.front;
      failed = c.put_apart.ensures.failed;
      count = c.put_apart.ensures.count;
    }
