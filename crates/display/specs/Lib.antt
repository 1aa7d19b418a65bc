pub mod Show
pub mod Internal
pub mod Drawing
pub mod Before
pub mod FrameBytes
