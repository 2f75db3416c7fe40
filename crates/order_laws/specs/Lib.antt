pub mod NodeOrder
