use Rattle.std.proofs.Common.{◌≡◌, ℕ, ◌*◌, ◌≤◌, drop}
use Rattle.std.specs.Iterator.Adapters.{enumerate_count, enumerate_source}
use Rattle.std.specs.Slice.Iter.{chunks_rest, chunks_size}
use Rattle.image.specs.Layout.{layout}
use Rattle.image.proofs.Encoding.{sound}
use Rattle.image.proofs.Written.{Written}
use Rattle.image.proofs.writer.write_blocks.Given as goal

abbrev pub invariant-loop-index : goal.invariant-loop-index
invariant-loop-index l =
    let n : ℕ = enumerate_count l.index-iterator in
    record {
      size : chunks_size (enumerate_source l.index-iterator) ≡ 62;
      rest : chunks_rest (enumerate_source l.index-iterator) ≡ drop (62 * n) l.code;
      inside : n ≤ l.blocks;
      written : Written layout sound l.number l.blocks l.code l.initial.store n l.store;
    }
