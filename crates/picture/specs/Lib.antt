-- The picture of the panel.
pub mod Picture
