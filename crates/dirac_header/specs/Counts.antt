-- The counts of codeblocks, across and down, that bands are divided into.
pub use Rattle.dirac_parameters.specs.Counts.{counts_among, counts_at}
