use Rattle.std.proofs.Common.{Some, ap, subst, sym}
use Rattle.dirac_common.specs.Limits.{IsEncodedDepth, IsWavelet}
use Rattle.dirac_common.specs.declared.formats.Kind.TheVariants.{Inter}
use Rattle.dirac_parameters.specs.declared.transform.Transform.{Transform}
use Rattle.dirac_sequence_header.specs.declared.sequence.Sequence.{Sequence}
use Rattle.dirac_picture.specs.declared.coded.CodedMotion.{CodedMotion}
use Rattle.dirac_encode_laws.proofs.Coding.{codable}
use Rattle.dirac_encode_laws.proofs.Reading.{predicting}
use Rattle.dirac_motion.specs.Lent.{AreLent}
use Rattle.dirac_encode_picture.proofs.Asking.{ask_motion, ask_sequence, source_codable}
use Rattle.dirac_encode_picture.proofs.Predicting.{named_predictions, picture_asked, second_lent}
use Rattle.dirac_encode_picture.proofs.Preparing.{analysed_with, inter_prepared}
use Rattle.dirac_encode_picture.proofs.prepared.prepare_inter.Goals as goal

pub motion_of-requires-clause-blocks : goal.motion_of-requires-clause-blocks
motion_of-requires-clause-blocks g c = let is = predicting c.args.asked.now.settings.now c.requires.asked.accepted in (is.some_blocks, is.most_blocks)

pub motion_of-requires-clause-precision : goal.motion_of-requires-clause-precision
motion_of-requires-clause-precision g c = (predicting c.args.asked.now.settings.now c.requires.asked.accepted).precision

pub transform_of-transform-requires : goal.transform_of-transform-requires
transform_of-transform-requires g c = codable c.args.asked.now.settings.now c.requires.asked.accepted

pub predict-requires-clause-from : goal.predict-requires-clause-from
predict-requires-clause-from g c =
    let t = c.args.asked.now.settings.now in
    record {
      moved = record {
        sequence = ask_sequence t c.sequence_of-sequence.result c.requires.asked.accepted c.sequence_of-sequence.ensures.value;
        motion =
            ask_motion t c.args.asked.now.planned.now.code c.sequence_of-sequence.result c.args.moving.blocks.now c.in_ok-motion.motion c.requires.asked.accepted c.sequence_of-sequence.ensures.value c.in_ok-motion.ensures c.requires.blocks;
      };
      lent = subst (λ (x : Sequence). AreLent x c.args.moving.references.now) (sym c.sequence_of-sequence.ensures.value) c.requires.moving.lent;
      two =
          second_lent t c.args.asked.now.refs.now c.args.asked.now.planned.now c.args.asked.now.source.now c.in_ok-motion.motion c.args.moving.blocks.now c.args.moving.references.now c.requires.asked c.in_ok-motion.ensures
          c.requires.blocks c.requires.moving.named;
    }

pub analyse-requires-clause-from : goal.analyse-requires-clause-from
analyse-requires-clause-from g c =
    let t = c.args.asked.now.settings.now in
    record {
      wavelet = subst (λ (x : Transform). IsWavelet x.wavelet) (sym c.transform_of-transform.ensures.value) (codable t c.requires.asked.accepted).wavelet;
      depth = subst (λ (x : Transform). IsEncodedDepth x.depth) (sym c.transform_of-transform.ensures.value) (codable t c.requires.asked.accepted).depth;
      source = source_codable t c.args.asked.now.source.now c.requires.asked.accepted c.requires.asked.source;
      predicted =
          picture_asked t c.sequence_of-sequence.result c.args.asked.now.refs.now c.args.asked.now.planned.now c.args.asked.now.source.now c.in_ok-motion.motion c.args.moving.blocks.now c.in_ok-predictions.predictions
          c.requires.asked c.requires.as_many_samples c.sequence_of-sequence.ensures.value c.in_ok-motion.ensures c.requires.blocks
          (named_predictions c.sequence_of-sequence.result c.args.asked.now.refs.now c.args.asked.now.planned.now c.in_ok-motion.motion c.in_ok-predictions.predictions c.args.moving.references.now c.requires.moving.named c.in_ok-predictions.ensures);
    }

pub returns-clause-prepared : goal.returns-clause-prepared
returns-clause-prepared g c =
    inter_prepared c.args.asked.now.settings.now c.sequence_of-sequence.result c.args.asked.now.refs.now c.args.asked.now.planned.now c.args.asked.now.source.now c.in_ok-motion.motion c.args.moving.blocks.now c.in_ok-predictions.predictions c.in_ok-left.left
    c.requires.asked c.requires.as_many_samples c.sequence_of-sequence.ensures.value c.requires.inter c.requires.blocks c.in_ok-motion.ensures
    (named_predictions c.sequence_of-sequence.result c.args.asked.now.refs.now c.args.asked.now.planned.now c.in_ok-motion.motion c.in_ok-predictions.predictions c.args.moving.references.now c.requires.moving.named c.in_ok-predictions.ensures)
    (analysed_with c.args.asked.now.settings.now c.transform_of-transform.result Inter _ _ _ c.in_ok-left.left c.transform_of-transform.ensures.value c.in_ok-left.ensures)

pub returns-clause-blocks : goal.returns-clause-blocks
returns-clause-blocks g c = ap (λ (m : CodedMotion). Some m.blocks) c.in_ok-motion.ensures
