pub mod Segments
pub mod Segmenter
