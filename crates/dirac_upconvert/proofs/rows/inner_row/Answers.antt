use Rattle.dirac_upconvert.proofs.PartRows.{parts_at_places}
use Rattle.dirac_upconvert.proofs.rows.inner_row.Goals as goal

pub returns-then-at_places : goal.returns-then-at_places
returns-then-at_places c =
    let r = c.args.from.rests in
    let at = c.requires.at_places c.if-at_places.true in
    parts_at_places c.args.table.now r.bits c.args.from.across c.args.from.down r.right r.below c.inner_places.new.out c.requires.from.0.bits at.0 at.1 c.inner_places.ensures
