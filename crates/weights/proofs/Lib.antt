-- eq as its factors are multiplied, from the first on, over any ring.
pub mod EqProduct
-- A weight as its factors are multiplied, over any ring: with the weight over further bits multiplied in, and with nothing left.
pub mod WeightProduct
-- The factors of bits in a side's table: one is the weight over its bit alone, and four are multiplied one by one.
pub mod TableFactors
-- The places that the weights over so many bits of a limb take in the limb's block.
pub mod LimbSizes
-- The weights of limbs in a side's table: where the weight over the last bits of a limb stands.
pub mod LimbWeights
-- How far weights over the bits of a side may be taken: over these bits alone, and where they are all, to the end of the last limb.
pub mod Reach
-- A table of coordinates weighs numbers as the coordinates do: by eq of the number's bits and them.
pub mod TableWeights
-- A table with two values stored in it, one behind the other.
pub mod StoredValues
-- The factors of single bits: as they are written, two a turn, and where two tables have them alike.
pub mod FactorsWritten
-- Weights over one bit more, as they are made from those over the bits behind it: two a turn.
pub mod OneBitMore
-- One block of limb weights as it is made: the weight over no bits, then those over one bit more and one bit more.
pub mod OneLimbBlock
-- The blocks of limb weights as they are made, one a turn.
pub mod AllLimbBlocks
-- A side's table as `prepare` fills it: the factors of the coordinates, and where there are blocks the weights of limbs.
pub mod PreparedTable
-- A table of one value all over is ready to be filled.
pub mod ZeroTable
-- Worked examples over the field of p²: the factors in a table, a weight, and eq.
pub mod Examples
