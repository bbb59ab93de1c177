-- The bit register: a bit for each wire, and a phase in eighths of a turn.
use Rattle.std.specs.Prelude.{◌≡◌, ℕ, ◌+◌, ◌%◌, Bool, true, false, cond, not, ◌&&◌, List, [], ◌∷◌, ◌==◌, bit_and, bit_or, bit_xor}
use Rattle.basics.specs.declared.gate.Gate.{Gate}
use Rattle.basics.specs.declared.gate.Gate.TheVariants.{H, S, T, X, Z, Cx, Cz, Ccx}
use Rattle.basics.specs.Sets.{has, only}
use Rattle.target.specs.Interface.{sets_fit}

-- what a register holds: the set of wires whose bit is 1, the phase, and the set of wires that the maker set to 1 for when they are given
pub record Contents : Type 0 where
  pub bits : ℕ
  pub phase : ℕ
  pub preset : ℕ

-- a register that holds these
abbrev pub holding : ℕ → ℕ → ℕ → Contents
holding bits phase preset = record { bits = bits; phase = phase; preset = preset }

-- h alone is not taken
abbrev pub takes_all_but_h : Gate → Bool
takes_all_but_h H = false
takes_all_but_h S = true
takes_all_but_h T = true
takes_all_but_h X = true
takes_all_but_h Z = true
takes_all_but_h Cx = true
takes_all_but_h Cz = true
takes_all_but_h Ccx = true

-- the bit of each of these wires is 1
abbrev pub all_one : ℕ → List ℕ → Bool
all_one bits [] = true
all_one bits (w ∷ ws) = has bits w && all_one bits ws

-- the bit of wire w flipped
abbrev pub flip : ℕ → ℕ → ℕ
flip bits w = bit_xor bits (only w)

-- the last wire flipped, where the bit of each wire before it is 1
abbrev pub flip_last : ℕ → List ℕ → ℕ
flip_last bits [] = bits
flip_last bits (w ∷ []) = flip bits w
flip_last bits (v ∷ w ∷ ws) = cond (has bits v) (flip_last bits (w ∷ ws)) bits

-- the phase n eighths further, where the bit of each wire is 1
abbrev pub turn_by : ℕ → List ℕ → ℕ → ℕ → ℕ
turn_by n ws bits phase = cond (all_one bits ws) ((phase + n) % 8) phase

-- the register after a flip and after a turn; the maker's bits stay
abbrev pub flipped : List ℕ → Contents → Contents
flipped ws s = record { bits = flip_last s.bits ws; phase = s.phase; preset = s.preset }

abbrev pub turned : ℕ → List ℕ → Contents → Contents
turned n ws s = record { bits = s.bits; phase = turn_by n ws s.bits s.phase; preset = s.preset }

-- what a gate does: x, cx and ccx flip; t turns by 1, s by 2, z and cz by 4; h is not taken, so nothing is said of it
abbrev pub acted : Gate → List ℕ → Contents → Contents
acted H ws s = s
acted S ws s = turned 2 ws s
acted T ws s = turned 1 ws s
acted X ws s = flipped ws s
acted Z ws s = turned 4 ws s
acted Cx ws s = flipped ws s
acted Cz ws s = turned 4 ws s
acted Ccx ws s = flipped ws s

-- begin sets given wires to the maker's bits, other wires to 1 if they are in ones, and the phase to 0
abbrev pub prepared : ℕ → ℕ → ℕ → Contents → Contents
prepared used given ones s = record { bits = bit_or (bit_and given s.preset) ones; phase = 0; preset = s.preset }

-- a flip changes the bit of its wire and of no other
abbrev pub FlipsOne : Type 0
FlipsOne = (bits w v : ℕ) → has (flip bits w) v ≡ cond (v == w) (not (has bits v)) (has bits v)

-- what begin does to each wire, where it accepts the sets
abbrev pub PreparesEach : Type 0
PreparesEach =
    (used given ones : ℕ) (s : Contents) (w : ℕ) → sets_fit 16 used given ones ≡ true →
    has (prepared used given ones s).bits w ≡ cond (has given w) (has s.preset w) (has ones w)
