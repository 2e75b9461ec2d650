-- Laws of bytes in lists, of bodies and of trailers, and the theorems about sheets.
pub mod BytesLaws
pub mod TrailerLaws
pub mod BodyLaws
pub mod SheetLaws
pub mod ConvertLaws
pub mod TripLaws
