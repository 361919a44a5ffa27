pub mod Answering
pub mod KeywordLemmas
pub mod LineLemmas
pub mod LineReads
pub mod PrintLemmas
pub mod ScriptLemmas
pub mod TextWords
pub mod WordLemmas
