pub mod RecordNumbers
pub mod NamedRows
pub mod RecordTrips
pub mod HelmertLaws
