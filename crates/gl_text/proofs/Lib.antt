pub mod TextLemmas
pub mod WideLemmas
pub mod PlainLemmas
pub mod SpanLemmas
pub mod WordLines
