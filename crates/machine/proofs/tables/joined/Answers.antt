-- The shifts lose nothing, as both parts together have at most 16 atoms.
use Rattle.std.proofs.Common.{◌≡◌, ℕ, ◌+◌, ◌-◌, ◌*◌, ◌%◌, ◌^◌, ap, ◌∙◌, ap₂, arith}
use lib.Bits.{bit_or, bit_xor}
use Rattle.std.proofs.lemmas.Nat.{shl_whole, one_shl}
use Rattle.machine.proofs.tables.joined.Goals as goal
use Rattle.machine.proofs.tables.joined.Goals.{in-Arrow, in-Pair}

pub returns : goal.returns
returns c =
    let l = c.args.left in
    let r = c.args.right in
    let high : (r.signs * 2 ^ l.width) % 2 ^ 16 ≡ r.signs * 2 ^ l.width = shl_whole r.signs r.width l.width 16 c.requires.within (omega arith) in
    let one : (1 * 2 ^ l.width) % 2 ^ 16 ≡ 2 ^ l.width = one_shl l.width 16 (omega arith) in
    let made = λ (s : ℕ) (e : c.match-kind.turned ≡ s). ap₂ (λ (a b : ℕ). record { width = l.width + r.width; signs = bit_or a b }) e high in
    elim c.match-kind.branch [
      | in-Arrow w ↦ rw w.in-Arrow.is (made (bit_xor l.signs (2 ^ l.width - 1)) (w.turned-is ∙ ap (λ n. bit_xor l.signs (n - 1)) one))
      | in-Pair w ↦ rw w.in-Pair.is (made l.signs w.turned-is)
    ]
