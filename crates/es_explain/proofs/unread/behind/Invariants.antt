use Rattle.std.proofs.Common.{◌≡◌, ◌+◌, ◌≤◌, drop}
use Rattle.es_explain.specs.Unread.{behind, first}
use Rattle.es_explain.proofs.unread.behind.Given as goal

abbrev pub invariant-loop-byte : goal.invariant-loop-byte
invariant-loop-byte l =
    record {
      gone : behind l.bytes first ≡ behind (drop l.byte-index l.bytes) (record { line = l.line; column = l.column });
      line : l.line ≤ l.byte-index + 1;
      column : l.column ≤ l.byte-index + 1;
    }
