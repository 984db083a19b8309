pub mod OutsideLemmas
pub mod LinesLemmas
pub mod WindowLemmas
pub mod CursorLemmas
