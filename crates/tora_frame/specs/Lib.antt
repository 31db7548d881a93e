pub mod FrameParts
pub mod BorrowedFrames
pub mod FrameGrammar
