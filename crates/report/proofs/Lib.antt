pub mod Lines
pub mod Reports
pub mod Forms
