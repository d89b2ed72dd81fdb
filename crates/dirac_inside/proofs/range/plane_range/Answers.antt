use Rattle.std.proofs.Common.{arith, sym, ◌∙◌}
use Rattle.dirac_inside.proofs.Planes.{AreBlockPlaces, none_keeps, plain, some_keep}
use Rattle.dirac_inside.proofs.range.plane_range.Goals as goal
use Rattle.dirac_inside.proofs.range.plane_range.Goals.{else-columns-via-then-columns+else-rows, else-columns-via-else-columns}

pub returns-then-rows-clause-inside : goal.returns-then-rows-clause-inside
returns-then-rows-clause-inside c = λ v bounded.
    let a = c.args in
    let columns = c.places_of-columns.result in
    let rows = c.places_of-rows.result in
    some_keep a.blocks a.across a.down a.precision a.i a.j columns.first columns.end rows.first rows.end c.vectors_between.result v
    (record { across = c.requires.across; down = c.requires.down; precision = c.requires.precision })
    (record { columns = c.places_of-columns.ensures.places; rows = c.places_of-rows.ensures.places })
    (omega arith) (omega arith) c.places_of-columns.ensures.inside c.places_of-rows.ensures.inside
    (record {
      back = c.vectors_between.ensures.left ∙ plain c.span_of-columns.result.least c.span_of-columns.ensures.at_most_2_40.0 ∙ c.span_of-columns.ensures.span.back;
      on = c.vectors_between.ensures.right ∙ plain c.span_of-columns.result.most c.span_of-columns.ensures.at_most_2_40.1 ∙ c.span_of-columns.ensures.span.on;
    })
    (record {
      back = c.vectors_between.ensures.top ∙ plain c.span_of-rows.result.least c.span_of-rows.ensures.at_most_2_40.0 ∙ c.span_of-rows.ensures.span.back;
      on = c.vectors_between.ensures.bottom ∙ plain c.span_of-rows.result.most c.span_of-rows.ensures.at_most_2_40.1 ∙ c.span_of-rows.ensures.span.on;
    })

pub returns-else-columns-clause-inside : goal.returns-else-columns-clause-inside
returns-else-columns-clause-inside c = λ v bounded.
    let a = c.args in
    let columns = c.places_of-columns.result in
    let rows = c.places_of-rows.result in
    c.all.ensures.all v bounded
    ∙ sym (none_keeps a.blocks a.across a.down a.precision a.i a.j columns.first columns.end rows.first rows.end v
    (record { columns = c.places_of-columns.ensures.places; rows = c.places_of-rows.ensures.places })
    (λ l m. elim c.else-columns.branch [
      | else-columns-via-then-columns+else-rows w ↦ absurd (omega arith)
      | else-columns-via-else-columns w ↦ absurd (omega arith)
    ]))
