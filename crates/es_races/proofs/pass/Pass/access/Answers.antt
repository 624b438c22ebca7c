use Rattle.std.proofs.Common.{◌≡◌, ◌==◌, ◌&&◌, ◌||◌, ◌+◌, cond, ◌∙◌, ap, arith}
use Rattle.es_races.specs.Pass.{count_in, known_in, newest_in, raise_if}
use Rattle.es_races.proofs.Noting.{access_says, race_told, small_count, word_put}
use Rattle.es_races.proofs.pass.Pass.access.Goals as goal

pub returns-in-Some : goal.returns-in-Some
returns-in-Some c = λ l s w m r stands holder block writes.
    race_told l s c.args.index w m c.args.agent c.args.block r c.args.self.now stands holder block c.in-Some.earlier c.count-number.result c.args.writes c.newest.result.now c.clock_of-clock.result writes
    (λ j. ap (λ k. count_in k j) c.newest.ensures ∙ c.word_at-word.ensures c.args.writes j) c.clock_of-clock.ensures c.count-number.ensures c.in-Some.ensures.some

pub returns : goal.returns
returns c = λ l s w m r stands holder block writes.
    let a = c.args.agent in
    let old = c.args.self.now in
    let small = small_count l s c.args.index w m a c.args.block r old stands holder block in
    let count : c.saturating_add-count.result ≡ known_in old.known a a + 1 = omega (arith, small, c.saturating_add-count.ensures, c.count-number.ensures, c.clock_of-clock.ensures a) in
    access_says l s c.args.index w m a c.args.block r old stands holder block c.args.writes c.put.new.map c.set_clock.new.clocks writes
    (λ j few other.
    let least = c.in_default.ensures.none j few other in
    let newest = ap (λ k. count_in k j) c.newest.ensures ∙ c.word_at-word.ensures c.args.writes j in
    let known = c.clock_of-clock.ensures j in
    omega (arith, least, newest, known))
    (word_put old.words c.put.new.map c.args.block c.args.index c.word_at-word.result c.note.new.self a (known_in old.known a a + 1) c.args.writes c.in_ok-put.ensures.0 c.word_at-word.ensures
    (λ v j few. c.note.ensures v j few ∙ ap (λ n. raise_if ((v || c.args.writes) && (a == j)) n (count_in (newest_in c.word_at-word.result v) j)) count))
    (λ k j few small. c.set_clock.ensures k j few
    ∙ ap (λ n. cond (a == k) n (known_in old.known k j))
    (c.raise.ensures j small ∙ ap (raise_if (a == j) c.saturating_add-count.result) (c.clock_of-clock.ensures j) ∙ ap (λ n. raise_if (a == j) n (known_in old.known a j)) count))
