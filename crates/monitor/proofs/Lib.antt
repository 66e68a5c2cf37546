-- The demands on the open calls: on reads of plain files and of days, and on quotes.
pub mod Answered
pub mod Charged
pub mod Demands
pub mod DayDemands
pub mod QuoteDemands
