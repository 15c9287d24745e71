-- Why `create_index_for_files` meets its contract: the last pass is taken off the passes of a new index.
use Rattle.std.proofs.Common.{◌≡◌, ◌+◌, [], ◌∷◌, ◌++◌, length, ap, subst, arith, length-append}
use Rattle.script_runs.specs.Progress.{IsNewPassOf}
use Rattle.script_runs.specs.Scripts.{AllFrom}
use Rattle.script_runs.proofs.together.Numbered.{AllFrom-zero, AllFrom-left, AllFrom-right}
use Rattle.script_runs.proofs.indexes.create_index_for_files.Goals as goal

pub returns-clause-each : goal.returns-clause-each
returns-clause-each c =
    let first = IsNewPassOf c.in-Ok.made.0 in
    let all : AllFrom 0 first c.in-Ok.made.1.items = AllFrom-zero first c.in-Ok.made.1.items c.in-Ok.ensures.each in
    let parts : c.in-Ok.made.1.items ≡ c.pop.new.self.items ++ c.in-Some.last ∷ [] = c.in-Some.ensures.items in
    AllFrom-left first 0 c.pop.new.self.items (c.in-Some.last ∷ []) (subst (AllFrom 0 first) parts all)

pub returns-clause-last : goal.returns-clause-last
returns-clause-last c =
    let first = IsNewPassOf c.in-Ok.made.0 in
    let all : AllFrom 0 first c.in-Ok.made.1.items = AllFrom-zero first c.in-Ok.made.1.items c.in-Ok.ensures.each in
    let parts : c.in-Ok.made.1.items ≡ c.pop.new.self.items ++ c.in-Some.last ∷ [] = c.in-Some.ensures.items in
    let last = AllFrom-right first 0 c.pop.new.self.items (c.in-Some.last ∷ []) (subst (AllFrom 0 first) parts all) in
    let long : 0 + length c.pop.new.self.items ≡ c.args.files =
    omega (arith, c.in-Ok.ensures.count, ap length parts, length-append c.pop.new.self.items (c.in-Some.last ∷ [])) in
    subst (λ n. first n c.in-Some.last) long last.0
