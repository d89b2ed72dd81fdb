use Rattle.dirac_slices.proofs.Oriented.{row_read, size_of_plane, whole_plane}
use Rattle.dirac_slices.proofs.bands.read_row.Goals as goal

pub read_chain-requires-clause-size : goal.read_chain-requires-clause-size
read_chain-requires-clause-size c =
    size_of_plane c.args.sequence.now c.component_at-component.result c.size_of-size.result c.size_of-size.ensures c.requires.sizes

pub read_chain-requires-clause-whole : goal.read_chain-requires-clause-whole
read_chain-requires-clause-whole c =
    whole_plane c.args.transform.now c.args.found.now c.component_at-component.result c.sites.result.now c.sites.ensures c.requires.found

pub returns : goal.returns
returns c =
    row_read c.args.sequence.now c.args.transform.now c.args.found.now c.args.row c.component_at-component.result c.size_of-size.result c.sites.result.now c.read_chain.result
    c.component_at-component.ensures c.size_of-size.ensures c.sites.ensures c.read_chain.ensures.whole c.read_chain.ensures.none
