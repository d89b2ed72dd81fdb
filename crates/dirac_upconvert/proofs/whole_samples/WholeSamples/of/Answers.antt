use Rattle.std.proofs.Common.{◌≡◌, length, ◌∙◌}
use Rattle.std.proofs.lemmas.List.{take_at}
use Rattle.dirac_upconvert.proofs.Wholes.{all_put, table_told}
use Rattle.dirac_upconvert.proofs.whole_samples.WholeSamples.of.Goals as goal

pub returns : goal.returns
returns c =
    let out = c.put_narrowed.new.out in
    let items = take_at out _ _ (c.put_narrowed.auto.out ∙ c.as_mut_slice.ensures.len) in
    let len : length out ≡ length c.values-values.result.now = c.put_narrowed.auto.out ∙ c.as_mut_slice.ensures.len ∙ c.in_ok-samples.ensures.len in
    table_told c.args.plane.now _ _ _ c.width.ensures.value c.height.ensures.value
    (items ∙ all_put _ out c.values-values.result.now c.put_narrowed.ensures len ∙ c.values-values.ensures.value)
