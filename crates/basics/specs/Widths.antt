-- How wide masks are.
use Rattle.std.proofs.Common.{◌≤◌, arith}

-- a word of 32 bits is no wider than the widest mask
pub word_width : 32 ≤ 128
word_width = omega arith

pub widest : 128 ≤ 128
widest = omega arith
