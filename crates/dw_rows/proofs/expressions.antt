-- The expressions of a section, which its rules refer to by offset.
pub mod ExpressionOrder
pub mod ExpressionsAmong
pub mod Lending
pub mod GoodExpressions
