pub mod FileWords
pub mod NoteWords
pub mod NumberWords
