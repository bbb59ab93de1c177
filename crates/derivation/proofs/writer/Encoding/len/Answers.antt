-- The sum of the rows' lengths: no derivation is too long to count.
use Rattle.std.proofs.Common.{◌≡◌, ◌+◌, ◌*◌, length, arith, rules, tests}
use Rattle.std.proofs.lemmas.Iterator.{YieldsList-from_map, YieldsList-from_slice}
use Rattle.std.proofs.lemmas.Iterator.Consumers.{sum_by_from_yields_List, fits_by_from_yields_list}
use Rattle.std.proofs.lemmas.List.Concat.{length-flat_map}
use Rattle.derivation.specs.Format.{row_bytes, encode}
use Rattle.derivation.proofs.FormatLaws.{encode-bound}
use Rattle.derivation.proofs.WriterLaws.{encode-length-rows}
use Rattle.derivation.proofs.writer.Encoding.len.Goals as goal
use Rattle.derivation.proofs.writer.Encoding.len.Goals.{After-sum}

pub sum-requires-clause-fits : goal.sum-requires-clause-fits
sum-requires-clause-fits c =
    let es = c.args.self.now.types.now in
    let rows = c.args.self.now.rows.now in
    fits_by_from_yields_list (λ row. length (row_bytes row)) rows c.map.result _
    (YieldsList-from_map _ (λ row. length (row_bytes row)) (YieldsList-from_slice rows cc) c.map.ensures.closure (λ x r q k. search (rules, tests)))
    (omega (arith, encode-bound es rows c.args.self.now.few_types c.args.self.now.few_rows, encode-length-rows es rows, length-flat_map row_bytes rows))

counted : (c : After-sum) → 5 + 4 * length c.args.self.now.types.now + c.sum.result ≡ length (encode c.args.self.now.types.now c.args.self.now.rows.now)
counted c =
    let rows = c.args.self.now.rows.now in
    let sum = sum_by_from_yields_List (λ row. length (row_bytes row)) rows c.map.result c.sum.result c.sum.ensures.ran
    (YieldsList-from_map _ (λ row. length (row_bytes row)) (YieldsList-from_slice rows cc) c.map.ensures.closure (λ x r q k. search (rules, tests))) in
    omega (arith, sum, encode-length-rows c.args.self.now.types.now rows, length-flat_map row_bytes rows)

pub overflow_add-result-2 : goal.overflow_add-result-2
overflow_add-result-2 c = omega (arith, counted c, encode-bound c.args.self.now.types.now c.args.self.now.rows.now c.args.self.now.few_types c.args.self.now.few_rows)

pub returns : goal.returns
returns c = counted c
