pub mod Pieces
pub mod ScanLemmas
pub mod StopLemmas
pub mod StateLemmas
pub mod DriverPins
pub mod PinLemmas
pub mod Positions
pub mod NameLemmas
pub mod SizeLemmas
pub mod ReadLemmas
pub mod LawLemmas
pub mod BeginLemmas
pub mod OutcomeLemmas
pub mod AllLemmas
pub mod NumberLemmas
pub mod PhraseLemmas
-- What a text is after its names' drivers were checked
pub mod DriverLemmas
-- Texts that spell statements
pub mod LineLemmas
pub mod SpelledLemmas
