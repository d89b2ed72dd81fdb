pub use Rattle.dirac_encode_planes.specs.Analyses
pub use Rattle.dirac_encode_planes.specs.Analysing
pub mod Asked
pub use Rattle.dirac_reconstruct.specs.Finishing
pub use Rattle.dirac_reconstruct.specs.Predicted
pub mod Predicting
pub use Rattle.dirac_encode_planes.specs.Predictions
pub mod Prepared
