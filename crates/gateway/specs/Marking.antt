use Rattle.std.specs.Prelude.{◌≡◌}
use Rattle.gateway.specs.declared.exec.Nobody.{Nobody}
use Rattle.gateway.specs.declared.trace.Trace.{Trace}
use Rattle.gateway.specs.Noting.{noted, and_then}

-- Nobody reaches the port; how many events it had is noted.
pub record Marked {P : Type 0} (o : Nobody) (p : Trace P) (o' : Nobody) (q : Trace P) : Type 0 where
  pub port : q ≡ p
  pub marks : noted o'.marks ≡ and_then (noted o.marks) p.notes.seen
