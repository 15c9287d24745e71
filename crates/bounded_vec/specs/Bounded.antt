-- What a contract sees of a vector that is bounded.
use Rattle.std.specs.Prelude.{List, refl}
use Rattle.std.specs.Coded.{Coded, code_by, coded_list}

-- What contracts see of a bounded vector: its elements, in order.
pub record BoundedVec (T : Type 0) : Type 0 where
  pub items : List T

-- a bounded vector is stored as the list of its elements
abbrev pub bounded_vec_code : {T : Type 0} → Coded T → Coded (BoundedVec T)
bounded_vec_code {T} code = code_by (List T) (coded_list code) (λ v. v.items) (λ xs. record { items = xs }) (λ _. refl)
