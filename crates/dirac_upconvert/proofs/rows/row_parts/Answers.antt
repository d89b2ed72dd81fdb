use Rattle.dirac_upconvert.proofs.PartRows.{parts_at_places}
use Rattle.dirac_upconvert.proofs.rows.row_parts.Goals as goal

pub returns-then-is_at_place : goal.returns-then-is_at_place
returns-then-is_at_place c =
    let r = c.args.from.rests in
    let at = c.is_at_place.ensures c.if-is_at_place.true in
    parts_at_places c.args.table.now r.bits c.args.from.across c.args.from.down r.right r.below c.places.new.out c.requires.from.0.bits at.0 at.1 c.places.ensures
