-- Words of inner contracts. A reader needs `given` alone, which the contract of `read_settings` names.
pub mod Inner
-- kaldi_io: the format of a width, and what a run of numbers in bytes is.
pub mod Widths
-- kaldi_files: what the checked files hold, and the ends of the definition's parsers.
pub mod Parts
-- settings: the options from the maker's settings texts.
pub mod Settings
