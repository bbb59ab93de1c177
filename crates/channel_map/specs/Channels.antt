-- Channels: a table gives the channel of each wire; sets and gates of the wires act on the channels.
use Rattle.std.specs.Prelude.{◌≡◌, ℕ, zero, suc, ◌<◌, ◌≤◌, Bool, false, cond, ◌&&◌, ◌||◌, List, [], ◌∷◌, map, length, is_some, Some, None, Option, nat_le, nat_lt, slice_index, slice_index_or}
use Rattle.basics.specs.declared.gate.Gate.{Gate}
use Rattle.basics.specs.declared.numbers.Wire.{Wire}
use Rattle.basics.specs.declared.refusal.Refusal.{Refusal}
use Rattle.basics.specs.declared.refusal.Refusal.TheVariants.{ChannelEntry}
use Rattle.derivation.specs.Faults.{first_fault}
use Rattle.derivation.specs.Rows.{all_below}
use Rattle.basics.specs.Sets.{has, only, union}
use Rattle.target.specs.Interface.{View, shares}

-- an entry of a table is at fault if it is over 31 or stands before
abbrev pub entry_fault : List ℕ → ℕ → Option Refusal
entry_fault before c = cond (nat_lt 31 c || shares c before) (Some (ChannelEntry (length before))) None

-- the first entry at fault
abbrev pub table_fault : List ℕ → Option Refusal
table_fault entries = first_fault entry_fault (λ c. c) [] entries

-- a table has 32 entries, and none at fault: the entry of a wire is its channel
pub record Table : Type 0 where
  pub entries : List ℕ
  pub whole : length entries ≡ 32
  pub faultless : is_some (table_fault entries) ≡ false

-- n numbers from w on
abbrev pub up_from : ℕ → ℕ → List ℕ
up_from w zero = []
up_from w (suc n) = w ∷ up_from (suc w) n

-- n numbers down to 0
abbrev pub down_from : ℕ → List ℕ
down_from zero = []
down_from (suc n) = n ∷ down_from n

-- the channel of a wire; a number over 31 stays as it is
abbrev pub channel_of : List ℕ → ℕ → ℕ
channel_of entries w = slice_index_or entries w w

-- the channel of a wire, if it has one
abbrev pub channel_at : List ℕ → ℕ → Option Wire
channel_at entries w = cond (nat_lt w 32) (Some (record { 0 = channel_of entries w })) None

-- at most three wires, each below 32
abbrev pub seatable : List ℕ → Bool
seatable ws = nat_le (length ws) 3 && all_below 32 ws

-- the channels of the wires that are in m, where w is the first wire
abbrev pub channels_from : ℕ → List ℕ → ℕ → ℕ
channels_from w [] m = 0
channels_from w (c ∷ cs) m = union (cond (has m w) (only c) 0) (channels_from (suc w) cs m)

unfoldable pub channels_of : List ℕ → ℕ → ℕ
channels_of entries m = channels_from 0 entries m

-- the wires whose channels are in m, where w is the first wire
abbrev pub wires_from : ℕ → List ℕ → ℕ → ℕ
wires_from w [] m = 0
wires_from w (c ∷ cs) m = union (cond (has m c) (only w) 0) (wires_from (suc w) cs m)

unfoldable pub wires_of : List ℕ → ℕ → ℕ
wires_of entries m = wires_from 0 entries m

-- how many wires, from the first on, have a channel below n
abbrev pub fitting : ℕ → List ℕ → ℕ
fitting n [] = 0
fitting n (c ∷ cs) = cond (nat_lt c n) (suc (fitting n cs)) 0

module _ {S : Type 0} where
  -- the view through a table: a wire is in use if its channel is, and the width is that of the wires whose channels fit
  abbrev pub mapped_view : Table → View S → View (Table × S)
  mapped_view t v = record { state = (t, v.state); used = wires_of t.entries v.used; count = v.count; width = fitting v.width t.entries; capacity = v.capacity }

  -- begin and apply by the channels of the wires
  abbrev pub mapped_begun : (ℕ → ℕ → ℕ → S → S) → ℕ → ℕ → ℕ → Table × S → Table × S
  mapped_begun begun used given ones (t, s) = (t, begun (channels_of t.entries used) (channels_of t.entries given) (channels_of t.entries ones) s)

  abbrev pub mapped_applied : (Gate → List ℕ → S → S) → Gate → List ℕ → Table × S → Table × S
  mapped_applied applied g ws (t, s) = (t, applied g (map (channel_of t.entries) ws) s)

-- no two wires have one channel
abbrev pub OwnChannels : Type 0
OwnChannels = (t : Table) (v w : ℕ) → channel_of t.entries v ≡ channel_of t.entries w → v ≡ w

-- down, a channel is in the set exactly if its wire is
abbrev pub RenamesDown : Type 0
RenamesDown = (t : Table) (m w : ℕ) → w < 32 → has (channels_of t.entries m) (channel_of t.entries w) ≡ has m w

-- up, a wire is in the set exactly if its channel is
abbrev pub RenamesUp : Type 0
RenamesUp = (t : Table) (m w : ℕ) → w < 32 → has (wires_of t.entries m) w ≡ has m (channel_of t.entries w)

-- wires below a map's width go below the width beneath, and the next wire, if there is one, does not
abbrev pub GreatestWidth : Type 0
GreatestWidth =
    (n : ℕ) (entries : List ℕ) →
    ((w : ℕ) → w < fitting n entries → slice_index entries w < n) × (fitting n entries < length entries → n ≤ slice_index entries (fitting n entries))
