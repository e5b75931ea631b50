use Rattle.std.proofs.Common.{◌≡◌, ◌≤◌, take}
use Rattle.position.specs.Lines.{line_ends}
use Rattle.position.proofs.newlines.Given as goal

abbrev pub invariant-loop-byte : goal.invariant-loop-byte
invariant-loop-byte l = record {
  counted : l.ends ≡ line_ends (take l.byte-index l.text);
  few : l.ends ≤ l.byte-index;
}
