-- To believe: the limits of a plan and of a run.
use Rattle.std.specs.Prelude.{ℕ}

-- bytes of a name
abbrev pub longest_name : ℕ
longest_name = 32

-- bytes of a text
abbrev pub longest_text : ℕ
longest_text = 256

-- bytes of a plan
abbrev pub longest_plan : ℕ
longest_plan = 4294967295

-- agents of a plan
abbrev pub most_agents : ℕ
most_agents = 8

-- callbacks of an agent, and jobs
abbrev pub most_callbacks : ℕ
most_callbacks = 1000

abbrev pub most_jobs : ℕ
most_jobs = 1000

-- commands of a job or a callback
abbrev pub most_commands : ℕ
most_commands = 10000

-- identities that an agent makes
abbrev pub most_identities : ℕ
most_identities = 1000000

-- Shared Data Blocks that an agent opens
abbrev pub most_blocks : ℕ
most_blocks = 256

-- messages that an agent posts
abbrev pub most_posts : ℕ
most_posts = 10000

-- words of a Shared Data Block
abbrev pub most_words : ℕ
most_words = 16384
