-- The form that a chart is drawn on.
pub mod Form
