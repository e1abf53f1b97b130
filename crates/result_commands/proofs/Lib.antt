pub mod Generated
pub mod NumberLemmas
pub mod WrittenLemmas
