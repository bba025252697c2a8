pub mod DeltaWeights
pub mod FrameViews
pub mod IvectorBatch
pub mod IvectorFetch
pub mod IvectorUpdate
