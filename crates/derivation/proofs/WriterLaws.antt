-- Lists that are put at the front of a buffer one behind the other.
use Rattle.std.proofs.Common.{◌≡◌, ℕ, zero, suc, ◌+◌, ◌-◌, ◌*◌, ◌/◌, ◌%◌, ◌<◌, ◌≤◌, List, [], ◌∷◌, ◌++◌, length, get_or, take, drop, Ok, sym, refl, ap, ◌∙◌, ap₂, append-nil, arith}
use borrow.Rule.Slice.PartMut.{put_mid}
use Rattle.std.specs.List.{flat_map}
use Rattle.std.proofs.lemmas.List.{append_assoc, length-append, length-drop, take_at, drop_at, drop_all, drop-drop, take_more, take_rest, flat_map_more}
use Rattle.std.specs.Int.{w16, to_be_bytes}
use Rattle.std.proofs.lemmas.Nat.{be_bytes_2}
use Rattle.std.proofs.lemmas.List.Folds.{length-flat_map-take}
use Rattle.std.proofs.lemmas.Bool.{cond-true, le-leb}
use Rattle.derivation.specs.declared.types.TypeEntry.{TypeEntry}
use Rattle.derivation.specs.declared.rows.Row.{Row}
use Rattle.derivation.specs.Format.{type_bytes, row_bytes, encode}
use Rattle.derivation.specs.Written.{put_front, write_answer, write_after}
use Rattle.derivation.proofs.FormatLaws.{encode-length, types-length}

-- a list behind those that stand at the front
pub put-more : (s ws zs t ys : List ℕ) (i : ℕ) → t ≡ put_front s ws → i ≡ length ws → ys ≡ put_front (take (length t - i) (drop i t)) zs →
    put_mid i (length t - i) t ys ≡ put_front s (ws ++ zs)
put-more s ws zs t ys i was at behind =
    let front : take i t ≡ ws = ap (take i) was ∙ take_at ws (drop (length ws) s) i (sym at) in
    let back : drop i t ≡ drop (length ws) s = ap (drop i) was ∙ drop_at ws (drop (length ws) s) i (sym at) in
    let none : drop (length t - i) (drop i t) ≡ [] = drop_all (length t - i) (drop i t) (omega (arith, length-drop i t)) in
    let tail : drop (length zs) (drop (length ws) s) ≡ drop (length (ws ++ zs)) s =
    drop-drop (length zs) (length ws) s ∙ ap (λ (m : ℕ). drop m s) (sym (length-append ws zs)) in
    let new : ys ≡ zs ++ drop (length (ws ++ zs)) s = behind ∙ ap (λ (l : List ℕ). put_front l zs) (take_rest t i ∙ back) ∙ ap (λ (r : List ℕ). zs ++ r) tail in
    ap₂ (λ (a b : List ℕ). a ++ b) front (ap₂ (λ (y r : List ℕ). y ++ r) new none ∙ append-nil (zs ++ drop (length (ws ++ zs)) s))
    ∙ sym (append_assoc ws zs (drop (length (ws ++ zs)) s))

-- there is room for a list behind those that stand at the front
pub behind-room : (s ws zs t : List ℕ) (i : ℕ) → t ≡ put_front s ws → i ≡ length ws → length ws + length zs ≤ length s →
    length zs ≤ length (take (length t - i) (drop i t))
behind-room s ws zs t i was at room =
    let whole = ap length was ∙ length-append ws (drop (length ws) s) in
    omega (arith, whole, length-drop (length ws) s, ap length (take_rest t i), length-drop i t)

-- what the items of a list are written as, one item after the other
module _ {X : Type 0} (f : X → List ℕ) (xs : List X) (k : ℕ) (x : X) (h : k < length xs) (here : x ≡ get_or xs k x) where
  -- a further item has room
  pub joined_room : length (flat_map f (take k xs)) + length (f x) ≤ length (flat_map f xs)
  joined_room = omega (arith, length-flat_map-take f xs k x h, ap (λ y. length (f y)) here)

  joined_more : flat_map f (take (k + 1) xs) ≡ flat_map f (take k xs) ++ f x
  joined_more =
      ap (flat_map f) (take_more xs k x h) ∙ sym (flat_map_more f [] (take k xs) (get_or xs k x))
      ∙ ap (λ y. flat_map f (take k xs) ++ f y) (sym here)

  -- behind the items before it, it stands at the front with them
  pub stands-more : (s t ys : List ℕ) (at n : ℕ) →
      (at ≡ length (flat_map f (take k xs))) × (t ≡ put_front s (flat_map f (take k xs))) → n ≡ length (f x) → ys ≡ put_front (take (length t - at) (drop at t)) (f x) →
      (at + n ≡ length (flat_map f (take (k + 1) xs))) × (put_mid at (length t - at) t ys ≡ put_front s (flat_map f (take (k + 1) xs)))
  stands-more s t ys at n was len behind = (
    omega (arith, was.0, ap length joined_more, length-append (flat_map f (take k xs)) (f x)),
    put-more s (flat_map f (take k xs)) (f x) t ys at was.1 was.0 behind ∙ ap (put_front s) (sym joined_more),
  )

-- the whole

-- five bytes of header, four of each type, and the rows
pub encode-length-rows : (es : List TypeEntry) (rows : List Row) → length (encode es rows) ≡ 5 + 4 * length es + length (flat_map row_bytes rows)
encode-length-rows es rows =
    encode-length es rows ∙ omega (arith, length-append (flat_map type_bytes es) (flat_map row_bytes rows), types-length es)

-- a number of two bytes, the high one first
pub two_bytes : (n : ℕ) → n < 65536 → to_be_bytes w16 n ≡ n / 256 ∷ n % 256 ∷ []
two_bytes n h = be_bytes_2 (n / 256 ∷ n % 256 ∷ []) n refl (elim [ zero ↦ omega arith | suc zero ↦ omega arith | suc (suc k) ↦ omega arith ]) (omega arith)

-- the first five bytes of a derivation of n bytes
abbrev pub header : ℕ → List TypeEntry → List Row → List ℕ
header n es rows = 1 ∷ n / 256 ∷ n % 256 ∷ length es ∷ length rows ∷ []

encode-parts : (es : List TypeEntry) (rows : List Row) → header (length (encode es rows)) es rows ++ (flat_map type_bytes es ++ flat_map row_bytes rows) ≡ encode es rows
unfolding encode
encode-parts es rows = ap (λ (n : ℕ). header n es rows ++ (flat_map type_bytes es ++ flat_map row_bytes rows)) (encode-length es rows)

module _ (es : List TypeEntry) (rows : List Row) (s : List ℕ) (n : ℕ) (counted : n ≡ length (encode es rows)) (fits : n ≤ length s) where
  -- there is room for header, types and rows
  pub room : 5 + length (flat_map type_bytes es) + length (flat_map row_bytes rows) ≤ length s
  room = omega (arith, encode-length-rows es rows, types-length es)

  -- the offset behind the last row is the answer
  pub answered : (e : ℕ) → e ≡ 5 + length (flat_map type_bytes es) + length (flat_map row_bytes rows) → Ok e ≡ write_answer es rows (length s)
  answered e end =
      let same : e ≡ length (encode es rows) = omega (arith, encode-length-rows es rows, types-length es) in
      ap Ok same ∙ sym (cond-true _ _ _ (le-leb (length (encode es rows)) (length s) (omega arith)))

  -- header, types and rows in turn are the whole
  pub written : (t : List ℕ) → t ≡ put_front s ((header n es rows ++ flat_map type_bytes es) ++ flat_map row_bytes rows) → t ≡ write_after es rows s
  written t all =
      all
      ∙ ap (put_front s)
      (append_assoc (header n es rows) (flat_map type_bytes es) (flat_map row_bytes rows)
      ∙ ap (λ (k : ℕ). header k es rows ++ (flat_map type_bytes es ++ flat_map row_bytes rows)) counted ∙ encode-parts es rows)
      ∙ sym (cond-true _ _ _ (le-leb (length (encode es rows)) (length s) (omega arith)))
