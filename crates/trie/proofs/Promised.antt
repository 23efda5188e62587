-- What the specs promise of tries is proved. Assumes nothing.
use Rattle.trie.specs.Promises.{LocalIsRule, RuleTestIs, TrieOfRule, TrieOfPieces, TrieOfFree, TrieOfNodes, TrieOfEntries, TableFoundIs}
use Rattle.trie.proofs.Local as local
use Rattle.trie.proofs.Test as test
use Rattle.trie.proofs.BuildRule as built
use Rattle.trie.proofs.BuildPieces as pieces
use Rattle.trie.proofs.BuildFree as apart
use Rattle.trie.proofs.BuildCounts as counts
use Rattle.trie.proofs.Find as found

pub local_is_rule : LocalIsRule
local_is_rule = local.local_is_rule

pub rule_test_is : RuleTestIs
rule_test_is = test.rule_test_is

pub trie_of_rule : TrieOfRule
trie_of_rule = built.trie_of_rule

pub trie_of_pieces : TrieOfPieces
trie_of_pieces = pieces.trie_of_pieces

pub trie_of_free : TrieOfFree
trie_of_free = apart.trie_of_free

pub trie_of_nodes : TrieOfNodes
trie_of_nodes = counts.trie_of_nodes

pub trie_of_entries : TrieOfEntries
trie_of_entries = counts.trie_of_entries

pub table_found_is : TableFoundIs
table_found_is = found.table_found_is
