-- kaldi_io: the laws that the functions' proofs cite.
pub mod Chain
pub mod Bytes
pub mod Words
pub mod Values
-- kaldi_files: the laws that the functions' proofs cite.
pub mod FileRuns
pub mod ExtractorParts
pub mod ExtractorRead
-- kaldi_text: the laws that the functions' proofs cite.
pub mod TextRuns
pub mod Decimals
pub mod Numbers
pub mod Rows
-- settings: `Lines`: the lines of a text, blanks left off, the first line with a key. `Values`: whole numbers and floats of a value.
pub mod Lines
pub mod SettingValues
