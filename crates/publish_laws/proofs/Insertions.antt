-- Each case of an insertion below a node.
pub mod Inserting
use Rattle.publish_laws.proofs.Common.{inl, inr, List, [], ◌∷◌, ◌++◌, refl, sym, subst, Node, Item, a_node, of_right, body, entry, Made}
use Rattle.publish_laws.specs.Stages.{HasLeaf, HasRisen}
use Rattle.publish_laws.specs.Rises.{made_of_node, made_of_leaf}
use Rattle.publish_laws.specs.Insertions.{NormalInsert, Overflow, MayKeepNodeWhole, PullUp, PullUpOverflow}
use Rattle.publish_laws.proofs.Rises.{rise_grows, rise_whole, rises_copied, rises_wrapped, rises_pulled, rises_halved}
use Rattle.publish_laws.proofs.Insertions.Inserting.{insertion}

-- more records leave the leaf among them
leaf_still : (more news : List Made) (x : Item) → HasLeaf news x → HasLeaf (more ++ news) x
leaf_still more news x (fresh, i, h) = (fresh, of_right (made_of_leaf x fresh) more news i, h)

pub normal_insert : NormalInsert
normal_insert layout k held x fresh n m w words view at has spelled found part built shows place word =
    insertion layout k held (made_of_node m view ∷ made_of_leaf x.item fresh ∷ []) (a_node n ∷ []) has x n w (Node m view.height) at
    (rises_copied layout k held (made_of_leaf x.item fresh ∷ []) [] x (fresh, inl refl, spelled) n words found.locked m view built
    (subst (λ z. HasRisen layout k held (made_of_leaf x.item fresh ∷ []) x (body n) z []) (sym shows) (rise_grows layout k held x fresh n words found part)))
    (fresh, inr (inl refl), spelled) place word

pub overflow : Overflow
overflow layout k held x fresh n m w f words view at a b d e us vs has spelled found part cut lower upper built shows place word =
    let first : List Made = made_of_leaf x.item fresh ∷ [] in
    let halves : List Made = us ++ (vs ++ first) in
    let has_leaf : HasLeaf halves x.item = leaf_still us (vs ++ first) x.item (leaf_still vs first x.item (fresh, inl refl, spelled)) in
    let split = rises_halved layout k held first [] x (fresh, inl refl, spelled) n words found.locked f a b d e us vs lower upper
    (subst (λ z. HasRisen layout k held first x (body n) z []) cut (rise_grows layout k held x fresh n words found part)) in
    insertion layout k held (made_of_node m view ∷ halves) (a_node n ∷ []) has x n w (Node m view.height) at
    (rises_wrapped layout k held halves (a_node n ∷ []) x has_leaf n words found.locked m view built
    (subst (λ z. HasRisen layout k held halves x (entry n) z (a_node n ∷ [])) (sym shows) split)) (leaf_still (made_of_node m view ∷ []) halves x.item has_leaf) place word

pub stays_as_it_is : MayKeepNodeWhole
stays_as_it_is layout k held x fresh n m w words view at has spelled found from built shows place word =
    insertion layout k held (made_of_node m view ∷ made_of_leaf x.item fresh ∷ []) [] has x n w (Node m view.height) at
    (rises_wrapped layout k held (made_of_leaf x.item fresh ∷ []) [] x (fresh, inl refl, spelled) n words found.locked m view built
    (subst (λ z. HasRisen layout k held (made_of_leaf x.item fresh ∷ []) x (entry n) z []) (sym shows) (rise_whole layout k held x fresh n words found from)))
    (fresh, inr (inl refl), spelled) place word

pub pull_up : PullUp
pull_up layout k held news gone x o n m w r view at has risen has_leaf up built shows place word =
    insertion layout k held (made_of_node m view ∷ news) (a_node o ∷ gone) has x o w (Node m view.height) at
    (rises_copied layout k held news gone x has_leaf o up.upper up.has_upper m view built
    (subst (λ z. HasRisen layout k held news x (body o) z gone) (sym shows) (rises_pulled layout k held news gone x o n r up risen)))
    (leaf_still (made_of_node m view ∷ []) news x.item has_leaf) place word

pub pull_up_overflow : PullUpOverflow
pull_up_overflow layout k held news gone x o n m w f r a b d e us vs view at has risen has_leaf up cut lower upper built shows place word =
    let halves : List Made = us ++ (vs ++ news) in
    let still : HasLeaf halves x.item = leaf_still us (vs ++ news) x.item (leaf_still vs news x.item has_leaf) in
    let split = rises_halved layout k held news gone x has_leaf o up.upper up.has_upper f a b d e us vs lower upper
    (subst (λ z. HasRisen layout k held news x (body o) z gone) cut (rises_pulled layout k held news gone x o n r up risen)) in
    insertion layout k held (made_of_node m view ∷ halves) (a_node o ∷ gone) has x o w (Node m view.height) at
    (rises_wrapped layout k held halves (a_node o ∷ gone) x still o up.upper up.has_upper m view built
    (subst (λ z. HasRisen layout k held halves x (entry o) z (a_node o ∷ gone)) (sym shows) split)) (leaf_still (made_of_node m view ∷ []) halves x.item still) place word
