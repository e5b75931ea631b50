use Rattle.std.specs.Prelude.{ℕ, List, ◌∷◌, map}
use Rattle.day.specs.declared.Command.{Command}
use Rattle.day.specs.declared.Command.TheVariants as command
use Rattle.day.specs.declared.Order.{Order}
use Rattle.gateway.specs.declared.script.Call.{Call}
use Rattle.gateway.specs.declared.script.Call.TheVariants as call
use Rattle.gateway.specs.declared.script.Rule.TheVariants as rule
use Rattle.gateway.specs.declared.script.Hour.{Hour}
use Rattle.gateway.specs.declared.serve.Loads.{Loads}

-- an order over the fronts of the stores that another has
abbrev pub like : Order → Command → Order
like o c = record { command = c; slots = o.slots; cells = o.cells }

-- a load, and a run for each grant
abbrev pub load_and_runs : Order → List ℕ → List Order
load_and_runs load grants = load ∷ map (λ g. like load (command.Run g)) grants

-- the order of a call of the script
abbrev pub asked : Loads → Call → Order
asked l (call.Load rule.Limit) = l.limit
asked l (call.Load rule.Follower) = l.follower
asked l (call.Run grant) = like l.limit (command.Run grant)
asked l call.Restart = like l.limit command.Restart
asked l call.Unload = like l.limit command.Unload

abbrev pub scripted : Loads → List Hour → List Order
scripted l hours = map (λ h. asked l h.1) hours
