-- Elements read from numbers below p: how many there are, and that each may be read and is one of the field.
pub mod NumbersRead
-- Four factors, one after the other or all at once, over any ring.
pub mod FourFactors
-- The numbers of a sum together: how large they are, for a caller who bounds a sum as a whole.
pub mod SizesTogether
