pub mod KaldiFiles
pub mod KaldiFilesAnswers
pub mod KaldiIoAnswers
pub mod KaldiIoGot
pub mod KaldiText
pub mod KaldiTextAnswers
pub mod KaldiTextGot
pub mod Settings
