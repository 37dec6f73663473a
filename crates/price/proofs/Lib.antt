-- An answer of price is determined by what it says.
pub mod Answers
-- Prices by computation.
pub mod Examples
-- A total in pence is the nearest number of pence, half a penny upwards: there is one such number.
pub mod Rounding
-- What a price is, case by case: which rate is refused, and what is known where none is.
pub mod PriceCases
-- A penny for each factor is as many pence as evaluate and cell answer factors.
pub mod FactorsArePriced
-- The factors of an array's entries, counted where the entries stand: those of cells all at once, those of calls one by one.
pub mod FactorsLeft
