-- Header, types and rows, one behind the other, where there is room for all.
use Rattle.std.proofs.Common.{◌≡◌, ◌+◌, ◌++◌, arith, ◌∙◌}
use Rattle.std.specs.List.{flat_map}
use Rattle.std.proofs.lemmas.List.{length-append}
use Rattle.derivation.specs.Format.{type_bytes, row_bytes}
use Rattle.derivation.specs.Written.{put_front}
use Rattle.derivation.proofs.FormatLaws.{encode-bound}
use Rattle.derivation.proofs.WriterLaws.{header, two_bytes, put-more, behind-room, room, answered, written}
use Rattle.derivation.proofs.writer.Encoding.write.Goals as goal
use Rattle.derivation.proofs.writer.Encoding.write.Goals.{After-put_bytes-at}

pub overflow_cast-len : goal.overflow_cast-len
overflow_cast-len c =
    omega (arith, c.len-len.ensures, encode-bound c.args.self.now.types.now c.args.self.now.rows.now c.args.self.now.few_types c.args.self.now.few_rows)

pub put_bytes-at-requires : goal.put_bytes-at-requires
put_bytes-at-requires c =
    omega (arith, room c.args.self.now.types.now c.args.self.now.rows.now c.args.buffer.now _ c.len-len.ensures c.if-len-buffer.false)

headed : (c : After-put_bytes-at) → c.put_bytes-at.new.buffer ≡ put_front c.args.buffer.now (header c.len-len.result c.args.self.now.types.now c.args.self.now.rows.now)
headed c =
    let small = encode-bound c.args.self.now.types.now c.args.self.now.rows.now c.args.self.now.few_types c.args.self.now.few_rows in
    rw (c.to_be_bytes.ensures ∙ two_bytes c.len-len.result (omega (arith, c.len-len.ensures, small))) at c.put_bytes-at.ensures.after

pub put_all-at-requires : goal.put_all-at-requires
put_all-at-requires c =
    let es = c.args.self.now.types.now in
    let rows = c.args.self.now.rows.now in
    let s = c.args.buffer.now in
    let n = c.len-len.result in
    behind-room s (header n es rows) (flat_map type_bytes es) c.put_bytes-at.new.buffer c.put_bytes-at.result
    (headed (goal.at.put_all-at-requires c).After-put_bytes-at) c.put_bytes-at.ensures.len
    (omega (arith, room es rows s n c.len-len.ensures c.if-len-buffer.false))

pub put_all-at-requires-2 : goal.put_all-at-requires-2
put_all-at-requires-2 c =
    let es = c.args.self.now.types.now in
    let rows = c.args.self.now.rows.now in
    let s = c.args.buffer.now in
    let n = c.len-len.result in
    let types = put-more s (header n es rows) (flat_map type_bytes es) c.put_bytes-at.new.buffer c.put_all-at.new.buffer c.put_bytes-at.result
    (headed (goal.at.put_all-at-requires-2 c).After-put_bytes-at) c.put_bytes-at.ensures.len c.put_all-at.ensures.after in
    let len = length-append (header n es rows) (flat_map type_bytes es) in
    behind-room s (header n es rows ++ flat_map type_bytes es) (flat_map row_bytes rows) _ (c.put_bytes-at.result + c.put_all-at.result)
    types (omega (arith, len)) (omega (arith, len, room es rows s n c.len-len.ensures c.if-len-buffer.false))

pub returns : goal.returns
returns c =
    let es = c.args.self.now.types.now in
    let rows = c.args.self.now.rows.now in
    let s = c.args.buffer.now in
    let n = c.len-len.result in
    let types = put-more s (header n es rows) (flat_map type_bytes es) c.put_bytes-at.new.buffer c.put_all-at.new.buffer c.put_bytes-at.result
    (headed (goal.at.returns c).After-put_bytes-at) c.put_bytes-at.ensures.len c.put_all-at.ensures.after in
    let len = length-append (header n es rows) (flat_map type_bytes es) in
    let all = put-more s (header n es rows ++ flat_map type_bytes es) (flat_map row_bytes rows) _ c.put_all-at-2.new.buffer (c.put_bytes-at.result + c.put_all-at.result)
    types (omega (arith, len)) c.put_all-at-2.ensures.after in
    record {
      answer = answered es rows s n c.len-len.ensures c.if-len-buffer.false _ (omega arith);
      after = written es rows s n c.len-len.ensures c.if-len-buffer.false _ all;
    }
