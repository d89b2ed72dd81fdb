-- Which bits spell the fields of a header one after another.
pub use Rattle.dirac_bits.proofs.Fields.{spells_then, gap_length}
