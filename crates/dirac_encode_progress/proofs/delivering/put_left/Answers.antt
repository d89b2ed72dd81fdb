use Rattle.std.proofs.Common.{subst, sym, refl, Option}
use Rattle.std.specs.Option.{option_to_list}
use Rattle.dirac_common.specs.declared.picture.Picture.{Picture}
use Rattle.dirac_io.specs.Writing.{AppendsFront}
use Rattle.dirac_content.specs.Raw.{raws}
use Rattle.dirac_encode_progress.proofs.Waiting.{one_front}
use Rattle.dirac_encode_progress.proofs.delivering.put_left.Goals as goal

pub returns-in-Some-clause-front : goal.returns-in-Some-clause-front
returns-in-Some-clause-front g c =
    let side = g.N.Sink.taken c.args.side.now in
    let side' = g.N.Sink.taken c.put_picture.new.out in
    subst (λ (o : Option Picture). AppendsFront side side' (raws (option_to_list o))) (sym c.in-Some.is) (one_front side side' c.in-Some.picture _ refl c.put_picture.ensures.front)
