pub mod TableLemmas
pub mod SpellLemmas
pub mod LiteralLemmas
pub mod ReadLemmas
pub mod KindLemmas
pub mod CutLemmas
pub mod LawLemmas
pub mod Places
