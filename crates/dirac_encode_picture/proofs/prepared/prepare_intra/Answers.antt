use Rattle.std.proofs.Common.{subst, sym}
use Rattle.dirac_common.specs.Limits.{IsEncodedDepth, IsWavelet}
use Rattle.dirac_common.specs.declared.formats.Kind.TheVariants.{Intra}
use Rattle.dirac_parameters.specs.declared.transform.Transform.{Transform}
use Rattle.dirac_encode_laws.proofs.Coding.{codable}
use Rattle.dirac_encode_picture.proofs.Asking.{source_codable}
use Rattle.dirac_encode_picture.proofs.Preparing.{analysed_with, intra_prepared}
use Rattle.dirac_encode_picture.proofs.prepared.prepare_intra.Goals as goal

pub transform_of-transform-requires : goal.transform_of-transform-requires
transform_of-transform-requires g c = codable c.args.asked.now.settings.now c.requires.asked.accepted

pub analyse-requires-clause-from : goal.analyse-requires-clause-from
analyse-requires-clause-from g c = record {
  wavelet = subst (λ (x : Transform). IsWavelet x.wavelet) (sym c.transform_of-transform.ensures.value) (codable c.args.asked.now.settings.now c.requires.asked.accepted).wavelet;
  depth = subst (λ (x : Transform). IsEncodedDepth x.depth) (sym c.transform_of-transform.ensures.value) (codable c.args.asked.now.settings.now c.requires.asked.accepted).depth;
  source = source_codable c.args.asked.now.settings.now c.args.asked.now.source.now c.requires.asked.accepted c.requires.asked.source;
  predicted = tt;
}

pub returns-clause-prepared : goal.returns-clause-prepared
returns-clause-prepared g c =
    intra_prepared c.args.asked.now.settings.now c.args.asked.now.refs.now c.args.asked.now.planned.now
    c.args.asked.now.source.now c.in_ok-left.left c.requires.asked c.requires.as_many_samples c.requires.intra
    (analysed_with c.args.asked.now.settings.now c.transform_of-transform.result Intra _ _ _ c.in_ok-left.left c.transform_of-transform.ensures.value c.in_ok-left.ensures)
