use Rattle.std.proofs.Common.{rules}
use Rattle.std.proofs.lemmas.List.Sorted.{answers_always}
use Rattle.sema_root.proofs.Searching.{searched}
use Rattle.sema_root.proofs.sorted_root.search.Goals as goal

-- the closure gives an entry's counter
pub returns : goal.returns
returns c =
    let facts = c.binary_search_by_key.ensures in
    let by_key = facts.position (λ entry. entry.counter) (answers_always _ _ _ (λ f a r g called. search rules)) in
    searched c.args.entries.now c.requires c.args.counter c.binary_search_by_key.result facts.bound by_key
