pub mod SimText
pub mod Laws
pub mod RootPlaces
pub mod LaneAnswers
pub mod VectorTexts
pub mod VectorTextsFields
