-- A coded picture of a prepared one can be written, and shown from its predictions.
use Rattle.std.proofs.Common.{◌≡◌, List, Option, None, Some, sym, ap, ◌∙◌, subst}
use Rattle.std.specs.Prelude.{IfSome, option_map}
use Rattle.dirac_common.specs.declared.picture.Picture.{Picture}
use Rattle.dirac_types.specs.declared.settings.Settings.{Settings}
use Rattle.dirac_sequence_header.specs.declared.sequence.Sequence.{Sequence}
use Rattle.dirac_sequence.specs.Written.{sequence_of}
use Rattle.dirac_header.specs.declared.header.PictureHeader.{PictureHeader}
use Rattle.dirac_picture.specs.declared.coded.CodedPicture.{CodedPicture}
use Rattle.dirac_content.specs.Content.{named}
use Rattle.dirac_plan.specs.declared.planned.Planned.{Planned}
use Rattle.dirac_plan_laws.specs.Headers.{header_of}
use Rattle.dirac_encode_laws.specs.Coded.{motion_among}
use Rattle.dirac_reconstruct.specs.declared.showing.Compensated.{Compensated}
use Rattle.dirac_encode_picture.specs.declared.prepared.Prepared.{Prepared}
use Rattle.dirac_encode_picture.specs.Asked.{coded_by}
use Rattle.dirac_reconstruct.specs.Finishing.{ArePredicted, CanBeFinished}
use Rattle.dirac_reconstruct.specs.Predicted.{ArePredictions}
use Rattle.dirac_encode_picture.specs.Prepared.{IsCompensated, IsPrepared, blocks_in}
use Rattle.dirac_encode_picture.proofs.Asking.{ask_refs, ask_sequence}
use Rattle.dirac_encode_picture.proofs.Facts.{coded_fits, moves_of}

-- the predictions that a prepared picture has are those of its coded picture
predicted_so : (t : Settings) (s : Sequence) (refs : List Picture) (q : Planned) (c : CodedPicture) (o : Option Compensated) → s ≡ sequence_of t → c.header ≡ header_of q
    → c.motion ≡ motion_among t (option_map (λ (x : Compensated). x.motion.blocks) o)
    → IfSome o (IsCompensated t refs q) → IfSome o (ArePredicted s refs c)
predicted_so t s refs q c None es eh em is = tt
predicted_so t s refs q c (Some x) es eh em is = record {
  motion = em ∙ ap Some (sym is.motion);
  planes =
      subst (λ (h : PictureHeader). ArePredictions s (named refs h.ref1) (named refs h.ref2) x.motion x.predictions) (sym eh)
      (subst (λ (y : Sequence). ArePredictions y (named refs q.ref1) (named refs q.ref2) x.motion x.predictions) (sym es) is.planes);
}

pub can_finish : (t : Settings) (s : Sequence) (refs : List Picture) (q : Planned) (p : Picture) (x : Prepared) (c : CodedPicture) → IsPrepared t refs q p x → s ≡ sequence_of t → c ≡ coded_by t refs q p (blocks_in x)
    → CanBeFinished s refs c x.compensated
can_finish t s refs q p x c is es ec =
    let fits = coded_fits t s refs q p (motion_among t (blocks_in x)) c is.asked (moves_of t q (blocks_in x) is.blocks) es ec in
    let head : c.header ≡ header_of q = ap (λ (y : CodedPicture). y.header) ec in
    record {
      rebuilt = (ask_sequence t s is.asked.accepted es, fits.0, ask_refs t s refs q p c.header is.asked es head);
      written = fits.1;
      predicted = predicted_so t s refs q c x.compensated es head (ap (λ (y : CodedPicture). y.motion) ec) is.compensated;
    }
