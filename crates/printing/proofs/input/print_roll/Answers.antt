use Rattle.std.proofs.Common.{string_bytes, ap}
use Rattle.printing.proofs.Known.{taken, grown}
use Rattle.printing.proofs.input.print_roll.Goals as goal

pub returns : goal.returns
returns g c = record {
  bytes = c.read_to_end.new.buf.items;
  text = c.in_ok-text.text;
  read = taken (g.R.Read.remaining c.take.result.inner) (g.R.Read.remaining c.args.input) c.take.result.limit 65537 c.new-bytes.result.items c.read_to_end.new.buf.items
      c.take.ensures.limit (ap g.R.Read.remaining c.take.ensures.inner) c.new-bytes.ensures.items c.in_ok-read_to_end.ensures.bytes;
  rolled = (c.as_slice.result, c.in_ok-text.ensures, c.as_slice.ensures.value);
  written = grown (g.W.Write.contents c.args.out.now) (g.W.Write.contents c.write_all.new.self) (g.W.Write.contents c.flush.new.self) c.as_bytes.result.now
      (string_bytes c.in_ok-text.text) c.as_bytes.ensures.value c.in_ok-write_all.ensures.bytes c.in_ok-flush.ensures.bytes;
}
